pub mod DataLaws
pub mod TransferLaws
