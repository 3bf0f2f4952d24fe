pub mod Compare
pub mod Weights
pub mod Questions
pub mod Classes
pub mod Settling
