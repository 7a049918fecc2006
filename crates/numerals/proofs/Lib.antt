pub mod ListLaws
pub mod DigitLaws
pub mod PlaceLaws
pub mod NumberLaws
