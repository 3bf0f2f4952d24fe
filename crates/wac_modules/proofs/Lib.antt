pub mod Declared
pub mod Meant
mod Rows
mod Small
mod Limited
