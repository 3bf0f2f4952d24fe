pub mod Pairs
pub mod Tracks
pub mod Taking
pub mod Positions
pub mod Fitting
pub mod Ready
