pub mod Rules
pub mod Marks
pub mod Groups
pub mod Tests
