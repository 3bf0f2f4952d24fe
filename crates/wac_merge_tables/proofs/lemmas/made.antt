pub mod Extending
pub mod Behind
pub mod MadeForms
