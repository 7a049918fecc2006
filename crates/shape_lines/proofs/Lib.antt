pub mod Room
pub mod LinesLaws
