pub mod Listings
pub mod Bound
