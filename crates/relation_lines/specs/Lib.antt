pub mod Sets
pub mod Tables
pub mod Runs
pub mod Shared
pub mod Reports
pub mod Text
pub mod Spans
pub mod Laws
