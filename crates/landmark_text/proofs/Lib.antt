pub mod AllKinds
pub mod Drops
pub mod Words
