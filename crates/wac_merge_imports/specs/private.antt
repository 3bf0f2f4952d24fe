pub mod unions
