pub mod GraphWeight
