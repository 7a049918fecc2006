pub mod LineLaws
pub mod TakenLaws
pub mod ComesLaws
