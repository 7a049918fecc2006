pub mod RequestedLaws
