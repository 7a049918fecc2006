pub mod Rows
pub mod Plans
