pub mod Hashing
pub mod Found
