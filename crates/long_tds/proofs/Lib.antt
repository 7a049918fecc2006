mod PartLaws
mod WalkLaws
pub mod Laws
mod CameLaws
pub mod AllCame
pub mod Examples
