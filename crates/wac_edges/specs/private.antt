pub mod cycles
pub mod Targets
pub mod Records
pub mod Aliases
pub mod Ready
pub mod Arranging
