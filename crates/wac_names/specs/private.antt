pub mod validation
