pub mod Seen
pub mod Attached
pub mod Causes
pub mod Streams
