pub mod RawNumbers
