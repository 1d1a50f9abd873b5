pub mod Superblock
pub mod Group
