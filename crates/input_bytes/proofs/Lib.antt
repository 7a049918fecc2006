pub mod InputLaws
