pub mod Completion
pub mod SingleCalls
