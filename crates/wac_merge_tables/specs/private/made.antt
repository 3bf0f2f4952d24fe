pub mod ShapeHash
pub mod FormHash
