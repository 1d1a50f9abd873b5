pub mod Operands
pub mod Commands
pub mod Steps
pub mod Laws
