pub mod Laws
pub mod Root
pub mod Costs
