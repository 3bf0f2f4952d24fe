pub mod bytes
pub mod declarations
pub mod sections
pub mod builder
