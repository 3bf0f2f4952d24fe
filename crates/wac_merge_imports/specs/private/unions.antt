pub mod Basis
pub mod BoundNames
