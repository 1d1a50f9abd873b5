pub mod Marks
pub mod Tables
