pub mod Numbers
pub mod RawBytes
