pub mod Sides
pub mod Free
pub mod Cycle
pub mod Faults
pub mod Trees
pub mod private
