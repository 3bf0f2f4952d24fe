pub mod made
pub mod private
