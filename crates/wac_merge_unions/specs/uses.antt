pub mod KeptUses
pub mod United
pub mod Using
