pub mod Submission
pub mod Completion
