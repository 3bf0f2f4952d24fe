pub mod Named
pub mod Imports
pub mod Kinds
pub mod Words
