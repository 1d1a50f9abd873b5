pub mod Images
pub mod Zeros
pub mod Within
