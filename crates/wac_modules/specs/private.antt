pub mod Declarations
pub mod Limits
