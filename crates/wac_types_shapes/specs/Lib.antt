pub mod primitives
pub mod keys
pub mod shapes
pub mod private
