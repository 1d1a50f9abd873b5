pub mod Damaged
pub mod Lengths
