pub mod Regions
pub mod Places
pub mod Lent
