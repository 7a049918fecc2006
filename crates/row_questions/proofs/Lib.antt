pub mod RowTestLaws
pub mod QuestionLaws
