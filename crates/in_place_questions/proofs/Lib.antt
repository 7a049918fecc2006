pub mod FactLaws
pub mod LentLaws
pub mod AnswerLaws
