pub mod Tds
