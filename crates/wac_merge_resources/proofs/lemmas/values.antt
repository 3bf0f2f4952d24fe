mod Rows
pub mod Tables
pub mod Listings
pub mod Seen
pub mod Joins
pub mod Joining
pub mod Links
