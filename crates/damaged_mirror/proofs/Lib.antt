pub mod GoodCopies
pub mod Told
