pub mod Plans
pub mod Preparing
pub mod Listing
pub mod Checking
pub mod Testing
pub mod Reporting
pub mod Faults
