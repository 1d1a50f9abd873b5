pub mod Slots
pub mod Mirrors
pub mod Runs
pub mod Parts
pub mod FarRows
pub mod Spreads
