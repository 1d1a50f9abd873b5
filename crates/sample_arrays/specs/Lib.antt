pub mod Words
pub mod Marks
pub mod Arrays
pub mod Laws
