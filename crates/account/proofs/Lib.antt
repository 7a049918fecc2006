pub mod GuestLaws
pub mod StepLaws
pub mod TdLog
pub mod Accounted
pub mod WrittenBytes
pub mod StrictLaws
pub mod ClaimLaws
