pub mod Texts
pub mod In
pub mod Control
pub mod Bench
pub mod Releases
