pub mod Scopes
pub mod Rows
