pub mod AskedWeight
pub mod Costs
pub mod Written
