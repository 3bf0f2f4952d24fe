pub mod Numbers
pub mod Nodes
pub mod NodeViews
pub mod ItemHash
pub mod NodeHash
pub mod Tasks
pub mod NotedNodes
