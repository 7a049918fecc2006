pub mod Chosen
pub mod Lines
