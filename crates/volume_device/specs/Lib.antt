pub mod Sectors
pub mod Kept
pub mod Cost
pub mod Lengths
