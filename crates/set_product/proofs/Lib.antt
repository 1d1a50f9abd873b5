pub mod Pairs
pub mod Blocks
pub mod Spaces
pub mod BlockRanks
pub mod Walks
pub mod HeadByHead
pub mod Shaped
pub mod Equal
pub mod Ranked
pub mod Uniqueness
pub mod Rotations
mod Counts
