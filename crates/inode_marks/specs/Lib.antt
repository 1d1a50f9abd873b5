pub mod Inode
pub mod Tables
