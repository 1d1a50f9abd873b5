pub mod Records
pub mod Marks
