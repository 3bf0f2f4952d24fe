pub mod Apart
pub mod WayRows
pub mod PlainInterfaces
pub mod OneIds
pub mod AgainRows
pub mod FaultsOfEntries
