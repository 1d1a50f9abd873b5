pub mod GoodRows
pub mod Told
pub mod Again
