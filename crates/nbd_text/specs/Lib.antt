pub mod Fields
pub mod Options
pub mod Requests
pub mod Dialogue
pub mod Numbers
