pub mod Pieces
pub mod Limits
pub mod Numbers
pub mod Beside
