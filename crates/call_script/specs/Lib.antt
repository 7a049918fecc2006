pub mod Limits
pub mod Calls
pub mod RawLines
