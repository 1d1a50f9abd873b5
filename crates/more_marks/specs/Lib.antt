pub mod Btrfs
pub mod Lvm
