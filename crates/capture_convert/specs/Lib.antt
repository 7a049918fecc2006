pub mod Converting
pub mod Changes
pub mod Examples
