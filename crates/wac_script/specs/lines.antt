pub mod Words
pub mod Numbers
pub mod Says
pub mod Called
