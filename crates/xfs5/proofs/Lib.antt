pub mod Pieces
pub mod Limits
