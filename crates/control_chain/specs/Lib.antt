pub mod Chain
pub mod Dropped
pub mod Endings
