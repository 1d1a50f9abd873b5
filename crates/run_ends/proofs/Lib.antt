pub mod Lengths
pub mod OneByOne
pub mod Printed
pub mod Refusals
pub mod Taking
pub mod Limits
pub mod CutShort
