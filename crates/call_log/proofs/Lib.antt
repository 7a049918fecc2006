pub mod RecordLaws
pub mod LogLaws
pub mod CallLaws
