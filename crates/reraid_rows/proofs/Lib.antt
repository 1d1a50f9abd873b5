pub mod Ready
pub mod Lengths
