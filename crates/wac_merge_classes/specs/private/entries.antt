pub mod Numbering
pub mod Walking
pub mod Ways
