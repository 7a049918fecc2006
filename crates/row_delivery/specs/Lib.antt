pub mod Frames
pub mod Completing
pub mod Claims
