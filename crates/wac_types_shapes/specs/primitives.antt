pub mod Name
pub mod Core
pub mod Tree
