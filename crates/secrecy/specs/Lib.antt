pub mod Alike
pub mod Runs
