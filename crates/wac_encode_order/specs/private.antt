pub mod Graph
pub mod Merging
pub mod Interfaces
pub mod SideOrder
pub mod TypeItems
