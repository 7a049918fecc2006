pub mod Touching
pub mod TouchingExamples
pub mod Before
