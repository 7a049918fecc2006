pub mod Questions
pub mod Tests
pub mod Examples
