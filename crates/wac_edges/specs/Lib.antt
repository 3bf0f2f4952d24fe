pub mod cycles
pub mod Edge
pub mod Ends
pub mod Order
pub mod Arranged
pub mod private
