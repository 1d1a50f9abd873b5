pub mod Mirrored
pub mod Sectors
pub mod Columns
