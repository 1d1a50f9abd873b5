pub mod Mirrored
pub mod Paged
