pub mod HeaderLaws
pub mod CallLaws
