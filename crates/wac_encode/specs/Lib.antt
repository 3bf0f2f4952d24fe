pub mod Root
pub mod Lending
pub mod Growth
pub mod Named
pub mod Errors
pub mod Told
pub mod Imported
pub mod private
