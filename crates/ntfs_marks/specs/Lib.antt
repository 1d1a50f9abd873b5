pub mod Boot
pub mod RecordSize
pub mod FileRecord
