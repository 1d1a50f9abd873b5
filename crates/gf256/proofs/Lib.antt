pub mod EachByte
pub mod Sums
pub mod Products
pub mod Powers
pub mod Doubling
pub mod Undoing
