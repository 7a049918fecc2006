pub mod Events
pub mod Captures
