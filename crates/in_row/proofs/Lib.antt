pub mod RowLaws
pub mod CallLaws
pub mod FoldLaws
