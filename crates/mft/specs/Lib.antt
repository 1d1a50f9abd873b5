pub mod Boot
pub mod Fields
pub mod Places
pub mod Runs
pub mod Start
