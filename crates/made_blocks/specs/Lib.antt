pub mod Held
pub mod InCalls
pub mod ControlCalls
