pub mod coding
pub mod trees
