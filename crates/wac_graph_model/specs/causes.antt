pub mod TypeFaults
pub mod OuterNames
pub mod Cause
