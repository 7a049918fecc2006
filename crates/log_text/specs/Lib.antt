pub mod Widths
pub mod Lines
