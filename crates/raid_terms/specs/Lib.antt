pub mod Role
pub mod Exponent
pub mod Cells
pub mod Address
pub mod Parity
pub mod Solving
pub mod Volume
