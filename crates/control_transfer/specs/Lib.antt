pub mod Data
pub mod Transfers
