pub mod Scopes
pub mod Good
pub mod Listed
pub mod Instances
pub mod private
