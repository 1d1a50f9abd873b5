pub mod TestAsks
pub mod TestPlans
pub mod TestSets
