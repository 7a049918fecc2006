pub mod Returned
pub mod Creation
pub mod Submission
pub mod Completion
pub mod Releases
