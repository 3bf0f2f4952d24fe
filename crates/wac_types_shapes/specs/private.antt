pub mod keys
pub mod shapes
