pub mod Sets
pub mod Paces
pub mod Columns
pub mod Broken
pub mod Sectors
pub mod Ordered
pub mod Placed
pub mod Sampled
pub mod Turns
pub mod Decided
pub mod Told
mod Settled
