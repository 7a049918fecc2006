pub mod ByteLaws
pub mod NumberLaws
pub mod PlaceLaws
