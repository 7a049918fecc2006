pub mod SubmissionLaws
pub mod CompletionLaws
pub mod ModeLaws
