pub mod FreshSteps
pub mod RenamingSteps
pub mod RenamedTypes
pub mod Ways
