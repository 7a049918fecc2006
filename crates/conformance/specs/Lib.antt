pub mod Translate
pub mod TranslateControl
pub mod Phases
pub mod Requests
pub mod Runs
pub mod Differences
