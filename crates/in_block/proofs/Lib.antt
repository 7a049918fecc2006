pub mod SoundLaws
pub mod TestLaws
