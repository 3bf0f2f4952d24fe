pub mod places
pub mod encoding
