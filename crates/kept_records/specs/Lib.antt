pub mod Rows
pub mod Compact
pub mod Examples
