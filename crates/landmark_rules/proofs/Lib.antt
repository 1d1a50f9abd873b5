pub mod Ranges
pub mod Distances
pub mod Places
pub mod Holding
