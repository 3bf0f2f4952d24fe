pub mod entries
pub mod terms
