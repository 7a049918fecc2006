pub mod WritingLaws
pub mod AlikeLaws
