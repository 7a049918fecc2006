pub mod CompletionLaws
pub mod TurnLaws
pub mod QuestionLaws
pub mod CallLaws
