pub mod WriteLaws
pub mod ByteLaws
pub mod CarryOutLaws
