pub mod Head
pub mod Layout
pub mod Stores
