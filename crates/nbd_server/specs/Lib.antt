pub mod Taken
pub mod Turns
pub mod Served
