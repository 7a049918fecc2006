pub mod Blocks
pub mod Facts
pub mod Stages
pub mod Endings
pub mod Numbers
