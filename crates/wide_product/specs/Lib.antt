pub mod Bases
pub mod Sets
pub mod Groups
pub mod Parts
pub mod PaddedParts
pub mod Laws
