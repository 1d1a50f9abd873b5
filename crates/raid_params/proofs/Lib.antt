pub mod Chunks
pub mod Counted
pub mod Ruled
