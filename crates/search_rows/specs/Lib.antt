pub mod SmallPlans
