pub mod Naming
pub mod Further
pub mod Sizes
