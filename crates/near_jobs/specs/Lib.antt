pub mod MirrorWriting
pub mod Mirroring
