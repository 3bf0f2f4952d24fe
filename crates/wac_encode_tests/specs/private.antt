pub mod Stacks
pub mod Opened
pub mod Merged
pub mod ByHand
