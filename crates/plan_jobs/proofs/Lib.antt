pub mod Bases
pub mod Told
pub mod Checks
pub mod Listed
pub mod Plans
pub mod Prepared
pub mod PagesRead
