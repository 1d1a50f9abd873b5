pub mod Header
pub mod Chunks
pub mod Whole
