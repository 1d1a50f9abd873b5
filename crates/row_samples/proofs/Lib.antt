pub mod Copied
pub mod Begun
pub mod Offered
pub mod Few
pub mod Ordered
