pub mod Product
pub mod Asks
pub mod Hopeful
pub mod Walk
pub mod Pages
pub mod Costs
pub mod Laws
