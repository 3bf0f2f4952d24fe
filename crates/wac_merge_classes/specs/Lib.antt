pub mod entries
pub mod terms
pub mod private
