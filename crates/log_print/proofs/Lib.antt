pub mod LogTextLaws
