pub mod Reads
pub mod Values
pub mod Sorts
pub mod Cores
pub mod Types
pub mod Sections
pub mod Law
