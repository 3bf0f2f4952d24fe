pub mod made
pub mod tables
