pub mod Homes
pub mod Written
pub mod Bases
pub mod SetRefusals
