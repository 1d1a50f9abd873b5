pub mod Placing
pub mod Reserves
pub mod Passing
pub mod Landmarks
pub mod Adding
pub mod Small
pub mod Prefixes
