pub mod uniting
