pub mod RequestLaws
mod CollectLaws
pub mod Theorems
