pub mod HeldLaws
pub mod StoreLaws
