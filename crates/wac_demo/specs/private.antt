pub mod Lines
pub mod Word
