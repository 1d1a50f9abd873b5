pub mod Regions
pub mod Syndromes
pub mod LostBytes
pub mod Unbreakable
pub mod Known
pub mod Passes
