pub mod Writes
pub mod CarryOut
