pub mod uniting
pub mod uses
