pub mod ByCount
pub mod AllCame
