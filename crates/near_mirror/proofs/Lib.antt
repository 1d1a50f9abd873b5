pub mod Turns
pub mod Chunks
pub mod Heads
pub mod Apart
pub mod Finds
pub mod Homes
pub mod NearWords
