pub mod ByteLaws
pub mod AccountLaws
pub mod CompletionLaws
