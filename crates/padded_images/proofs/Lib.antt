pub mod Order
pub mod Lengths
pub mod Marks
pub mod Planned
