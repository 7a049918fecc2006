pub mod RowLaws
pub mod KeptLaws
pub mod TakenLaws
