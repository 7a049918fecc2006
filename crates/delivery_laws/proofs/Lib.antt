pub mod LaidLaws
pub mod ReadLaws
pub mod RangeLaws
pub mod InsideLaws
pub mod KindLaws
pub mod DeliveryLaws
pub mod ClaimLaws
