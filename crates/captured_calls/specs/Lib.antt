pub mod Written
pub mod Submitted
pub mod Rows
