pub mod Heads
pub mod Sectors
pub mod Lies
pub mod Undo
pub mod AddressExamples
