pub mod FieldSums
pub mod Combined
pub mod Independence
pub mod Unique
pub mod Ties
pub mod Rests
pub mod Stages
