pub mod Surveying
pub mod Laws
