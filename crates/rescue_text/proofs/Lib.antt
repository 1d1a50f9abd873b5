pub mod Numerals
pub mod FirstWords
pub mod Reading
pub mod Covered
pub mod Bisected
pub mod Sound
pub mod Rising
