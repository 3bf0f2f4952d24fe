pub mod Found
pub mod Alike
pub mod NewUnder
pub mod OwnResources
pub mod OrderGroups
