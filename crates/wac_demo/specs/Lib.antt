pub mod Composed
pub mod Printed
pub mod private
