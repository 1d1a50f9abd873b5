pub mod Surveyed
pub mod Sizes
