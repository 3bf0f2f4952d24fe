pub mod Shapes
pub mod Made
