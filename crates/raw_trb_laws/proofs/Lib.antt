pub mod ByteLaws
pub mod DecodeEncode
pub mod EncodeDecode
