pub mod TakenLaws
pub mod KeptLaws
pub mod CallLaws
