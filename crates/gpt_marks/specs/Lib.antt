pub mod Crc
pub mod Header
pub mod Entry
