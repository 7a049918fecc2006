pub mod Becomes
