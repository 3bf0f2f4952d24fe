pub mod fitting
pub mod unions
pub mod faults
pub mod weight
