pub mod Computing
pub mod Ends
pub mod Laws
pub mod Rows
pub mod Written
pub mod texts
pub mod samples
pub mod component_types
