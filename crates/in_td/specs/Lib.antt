pub mod Td
pub mod Normals
