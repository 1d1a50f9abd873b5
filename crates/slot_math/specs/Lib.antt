pub mod Space
pub mod Ways
pub mod Laws
