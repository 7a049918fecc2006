pub mod Words
pub mod Order
pub mod Theorems
pub mod Spelt
pub mod Counts
