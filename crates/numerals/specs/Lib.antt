pub mod Digits
pub mod Widths
