pub mod PlaceLaws
pub mod TdLaws
pub mod RowLaws
pub mod CallLaws
pub mod ClaimLaws
