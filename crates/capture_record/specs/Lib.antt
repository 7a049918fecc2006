pub mod Headers
pub mod Events
pub mod Calls
