pub mod Patch
pub mod LittleEndian
