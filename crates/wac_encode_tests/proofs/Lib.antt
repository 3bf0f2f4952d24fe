pub mod OpenScopes
pub mod RootItems
pub mod RootDefinitions
pub mod RootMerges
pub mod WorldDefinitions
pub mod HandWritten
