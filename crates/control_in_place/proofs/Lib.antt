pub mod AcceptLaws
pub mod CallLaws
