pub mod Spelling
pub mod NameLaws
pub mod Separators
pub mod Bounded
pub mod SetText
pub mod RotationLaws
pub mod Laws
