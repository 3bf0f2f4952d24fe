pub mod values
pub mod renaming
