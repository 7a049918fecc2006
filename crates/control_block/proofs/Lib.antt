pub mod BlockLaws
pub mod StageLaws
