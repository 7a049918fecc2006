pub mod PatchLaws
pub mod LittleEndianLaws
