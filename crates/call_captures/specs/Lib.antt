pub mod Settings
pub mod CallCaptures
