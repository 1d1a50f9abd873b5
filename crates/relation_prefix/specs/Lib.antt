pub mod Equations
pub mod Joint
pub mod Prefixes
pub mod Laws
pub mod Sampled
pub mod Systems
pub mod Ties
