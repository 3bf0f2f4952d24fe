pub mod values
pub mod renaming
pub mod private
