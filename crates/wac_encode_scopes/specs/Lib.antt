pub mod Contents
pub mod Books
pub mod States
pub mod Roots
pub mod Lending
pub mod private
