pub mod Readied
pub mod Salvages
