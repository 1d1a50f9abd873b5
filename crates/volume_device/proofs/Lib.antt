pub mod Blocks
pub mod Chunks
pub mod Copies
pub mod Rows
pub mod Memory
pub mod Costs
pub mod Told
pub mod Counted
