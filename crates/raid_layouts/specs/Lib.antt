pub mod Laws
pub mod Roles
pub mod Names
