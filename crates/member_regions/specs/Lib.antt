pub mod Members
pub mod Regions
pub mod ImageSums
