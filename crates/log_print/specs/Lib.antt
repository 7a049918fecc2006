pub mod LogText
