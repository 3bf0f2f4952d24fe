pub mod Weight
pub mod Text
pub mod private
