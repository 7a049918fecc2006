pub mod Records
pub mod Reading
pub mod Files
pub mod Answers
pub mod Times
pub mod Survey
