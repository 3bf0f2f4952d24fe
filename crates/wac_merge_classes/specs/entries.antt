pub mod Classes
pub mod Binding
pub mod Agreement
pub mod Scopes
pub mod Opening
pub mod Places
pub mod Bindings
