mod Counts
pub mod Lists
pub mod Walks
pub mod Spread
pub mod Grouped
pub mod GroupAt
pub mod PartAt
pub mod Products
pub mod PartPlan
pub mod Undo
pub mod Aligned
