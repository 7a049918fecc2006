pub mod SubmissionLaws
pub mod CompletionLaws
