pub mod uses
pub mod private
