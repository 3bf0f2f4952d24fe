pub mod FreeTrees
pub mod ListedOnce
pub mod Kept
pub mod Coming
pub mod FromEntries
pub mod FaultsComing
pub mod Using
pub mod EntryFaults
