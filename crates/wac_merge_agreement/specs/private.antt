pub mod agreeing
pub mod agreement
