pub mod comparison
