pub mod Shapes
pub mod Levels
pub mod Reach
pub mod ReachSteps
pub mod Marks
pub mod Worlds
pub mod Compared
pub mod Resting
