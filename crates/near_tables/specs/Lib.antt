pub mod Torn
pub mod Tables
pub mod Reading
pub mod Counting
pub mod Laws
