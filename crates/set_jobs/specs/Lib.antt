pub mod Mapping
pub mod Writing
pub mod Faults
