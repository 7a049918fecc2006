pub mod Limits
pub mod Ids
pub mod Trbs
pub mod Codes
pub mod Refusals
pub mod Questions
pub mod Answers
