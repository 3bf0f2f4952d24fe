pub mod Lawful
pub mod Ends
pub mod Items
pub mod Exports
