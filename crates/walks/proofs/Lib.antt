pub mod GoingLaws
pub mod WalkLaws
pub mod AllLaws
