pub mod Merging
pub mod Order
pub mod Examples
