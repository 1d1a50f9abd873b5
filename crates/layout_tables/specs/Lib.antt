pub mod Cells
pub mod Shape
pub mod Pieces
pub mod Spelling
pub mod Tables
pub mod Laws
pub mod Periods
