pub mod Beginning
pub mod MergedImports
pub mod Encoding
pub mod Writing
pub mod WrittenSoFar
