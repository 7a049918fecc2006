pub mod TestLaws
pub mod HeldLaws
