pub mod shapes
