pub mod Padded
pub mod Tells
