pub mod Written
pub mod WrittenView
