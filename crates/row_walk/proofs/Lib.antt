pub mod MovedLaws
pub mod TdsLaws
pub mod RowLaws
pub mod AccountLaws
