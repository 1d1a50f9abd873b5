pub mod Plans
pub mod Rows
pub use Rattle.raid_params.specs.Places
