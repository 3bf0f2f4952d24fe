pub mod Search
pub mod Faults
pub mod Faultless
