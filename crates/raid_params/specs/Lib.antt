pub mod Size
pub mod Slots
pub mod Validity
pub mod Places
pub mod Bases
pub mod Wide
