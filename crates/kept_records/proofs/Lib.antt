pub mod TestLaws
