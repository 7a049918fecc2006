pub mod ReadingLaws
pub mod Inverse
