pub mod CallLaws
mod InLaws
mod ControlLaws
mod SumLaws
mod WriteLaws
pub mod Theorems
pub mod Examples
