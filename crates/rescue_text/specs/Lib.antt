pub mod Lines
pub mod RescueText
pub mod Good
pub mod Laws
