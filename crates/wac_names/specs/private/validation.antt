pub mod Views
pub mod Key
pub mod Earlier
