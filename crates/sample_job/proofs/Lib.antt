pub mod Attached
pub mod Asked
pub mod Refusals
pub mod Sampled
pub mod Owned
