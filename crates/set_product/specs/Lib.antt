pub mod Pairs
pub mod Heads
pub mod Blocks
pub mod Left
pub mod Laws
