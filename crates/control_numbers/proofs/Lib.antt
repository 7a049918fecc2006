pub mod KindLaws
pub mod TransferLaws
