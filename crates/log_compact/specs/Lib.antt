pub mod Kept
pub mod Compacting
