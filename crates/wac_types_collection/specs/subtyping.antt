pub mod Called
pub mod Subtype
pub mod Ranks
pub mod TreeLaws
pub mod CalledViews
