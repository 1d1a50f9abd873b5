pub mod Needs
pub mod DataThere
pub mod Finding
