pub mod Paces
pub mod Rows
pub mod Xors
pub mod Early
pub mod Heads
pub mod Reading
