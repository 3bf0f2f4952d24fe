pub mod plugs
pub mod Inside
pub mod Left
pub mod Bound
pub mod Kept
pub mod Twice
