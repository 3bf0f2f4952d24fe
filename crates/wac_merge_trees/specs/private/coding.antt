pub mod CallsView
pub mod Coding
pub mod ModuleCoding
pub mod ItemCoding
pub mod Listings
