pub mod plugs
pub mod Building
pub mod Listed
pub mod private
