pub mod OtherLaws
pub mod OutcomeLaws
