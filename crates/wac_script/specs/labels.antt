pub mod Things
pub mod Values
pub mod Shapes
pub mod Items
pub mod There
pub mod Cores
