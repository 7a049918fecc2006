pub mod HeadLaws
pub mod PlaceLaws
pub mod FactLaws
pub mod PartLaws
