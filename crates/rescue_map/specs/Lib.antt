pub mod Damaged
pub mod Salvaged
pub mod Ways
pub mod LostText
pub mod Laws
