pub mod PageReads
pub mod Ahead
pub mod HeadByHead
pub mod PageByPage
mod Among
