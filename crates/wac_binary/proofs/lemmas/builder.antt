pub mod WrittenLaws
pub mod CustomLaws
