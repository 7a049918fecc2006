pub mod CreationLaws
pub mod FreeingLaws
pub mod SubmissionLaws
pub mod CompletionLaws
pub mod ReleaseLaws
