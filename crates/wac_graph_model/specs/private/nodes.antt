pub mod Clones
pub mod PackageKeys
pub mod Positions
