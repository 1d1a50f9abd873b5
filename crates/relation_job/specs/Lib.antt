pub mod Sampling
pub mod Relating
pub mod Blocks
pub mod Looking
pub mod Laws
