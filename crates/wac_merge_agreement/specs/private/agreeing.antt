pub mod Fitting
pub mod Apart
pub mod Rows
pub mod Groups
