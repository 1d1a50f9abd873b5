pub mod Sampling
pub mod Own
