pub mod Sums
pub mod Heights
pub mod Near
pub mod Scopes
pub mod Uses
pub mod Rows
