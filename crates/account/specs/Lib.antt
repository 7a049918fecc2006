pub mod Guest
pub mod Strict
pub mod Claims
