pub mod Tables
pub mod Trbs
