pub mod NamedTypes
