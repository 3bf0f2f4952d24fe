pub mod Members
pub mod Wide
pub mod Once
pub mod WideWalk
