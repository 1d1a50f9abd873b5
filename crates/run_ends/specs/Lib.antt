pub mod Agreement
pub mod Counts
pub mod Cuts
pub mod Jobs
pub mod Pieces
pub mod Source
pub mod Stops
pub mod Printing
