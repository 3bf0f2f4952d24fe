pub mod coding
