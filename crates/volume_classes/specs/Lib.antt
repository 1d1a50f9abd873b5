pub mod Alike
pub mod Coefficients
pub mod Stretches
pub mod SetLists
pub mod Classes
pub mod Laws
pub mod Tables
