pub mod DwordLaws
pub mod TableLaws
pub mod Vectors
