pub mod Law
pub mod Admitted
