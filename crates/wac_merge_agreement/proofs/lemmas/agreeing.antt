pub mod Comparing
pub mod SpotKeys
pub mod Tables
pub mod Grouping
pub mod GroupKeys
pub mod Looking
pub mod Going
pub mod Sizes
