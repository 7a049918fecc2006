pub mod ChainLaws
pub mod DroppedLaws
pub mod EndingLaws
