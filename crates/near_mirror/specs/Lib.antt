pub mod Heads
pub mod Copies
pub mod Volume
pub mod Validity
pub mod Words
pub mod NameLaws
pub mod Laws
