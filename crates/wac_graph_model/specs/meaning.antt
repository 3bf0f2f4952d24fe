pub mod Defined
pub mod Means
pub mod Once
