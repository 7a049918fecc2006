pub mod PlaceLaws
pub mod TestedLaws
