pub mod ConvertingLaws
pub mod WritingLaws
pub mod ThereAndBack
