pub mod unions
pub mod private
