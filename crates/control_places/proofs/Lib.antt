pub mod LoggedLaws
