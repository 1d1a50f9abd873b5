pub mod HeadPlaces
pub mod Spaces
pub mod Numbered
pub mod Bare
pub mod Law
pub mod Leafwise
pub mod Parted
pub mod Walked
