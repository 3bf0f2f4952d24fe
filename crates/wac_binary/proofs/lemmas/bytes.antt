pub mod Short
pub mod Vectors
