pub mod Records
pub mod Logs
pub mod Calls
pub mod First
