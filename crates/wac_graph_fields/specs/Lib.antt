pub mod Removal
pub mod Unregistering
pub mod private
