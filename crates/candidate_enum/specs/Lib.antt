pub mod Survivors
pub mod Tests
pub mod Counts
pub mod Kept
pub mod Left
pub mod Laws
