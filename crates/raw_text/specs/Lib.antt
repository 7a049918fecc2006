pub mod RawLines
