pub mod JoinLaws
pub mod CompactLaws
pub mod EffectLaws
pub mod CarryLaws
pub mod LogLaws
pub mod BeforeLaws
