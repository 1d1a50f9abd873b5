pub mod Lines
pub mod OneReading
pub mod OneNumbering
pub mod Classed
