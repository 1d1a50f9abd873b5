pub mod Gained
pub mod Waiting
pub mod Parts
pub mod Served
