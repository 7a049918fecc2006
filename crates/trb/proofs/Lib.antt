pub mod TestLaws
pub mod QuestionLaws
pub mod AnswerLaws
