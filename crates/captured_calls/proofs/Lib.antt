pub mod WrittenLaws
pub mod SubmittedLaws
pub mod LeastLaws
pub mod RowLaws
pub mod CaptureLaws
