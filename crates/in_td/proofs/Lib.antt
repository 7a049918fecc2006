pub mod TdLaws
pub mod TurnLaws
