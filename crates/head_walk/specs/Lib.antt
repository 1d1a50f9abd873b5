pub mod Faults
pub mod Counts
pub mod Relations
pub mod Walk
