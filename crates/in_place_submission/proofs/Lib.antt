pub mod OutcomeLaws
pub mod SubmissionLaws
pub mod CollectedLaws
