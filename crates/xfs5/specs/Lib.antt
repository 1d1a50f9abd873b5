pub mod Inode
pub mod Places
