pub mod Pieces
pub mod Messages
pub mod Parts
pub mod Runs
pub mod Reached
pub mod Ends
