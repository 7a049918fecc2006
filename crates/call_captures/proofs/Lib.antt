pub mod OtherCalls
pub mod PlaceLaws
pub mod RefusedCalls
