pub mod Reading
pub mod Cost
pub mod Lengths
