pub mod collection
pub mod reach
pub mod subtyping
pub mod wide
