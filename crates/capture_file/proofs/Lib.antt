pub mod ReadingLaws
pub mod LayoutLaws
pub mod FileLaws
pub mod SurveyLaws
pub mod ByteLaws
