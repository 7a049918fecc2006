pub mod RegionLaws
pub mod PlaceLaws
