pub mod Laid
pub mod Ranges
pub mod Delivered
pub mod Claims
