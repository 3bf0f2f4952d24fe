pub mod Unfolding
pub mod Relation
pub mod Trees
pub mod Kept
pub mod Telling
pub mod Taking
