pub mod Refusals
pub mod Matching
pub mod Precedence
pub mod Plugging
pub mod Outcome
