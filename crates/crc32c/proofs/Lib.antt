pub mod Bits
pub mod Bytes
pub mod Registers
pub mod Numbers
