pub mod LostParts
pub mod NeededParts
pub mod ReadParts
pub mod NeededSums
pub mod DataFound
pub mod NeededRows
pub mod ParityFound
pub mod OneSector
