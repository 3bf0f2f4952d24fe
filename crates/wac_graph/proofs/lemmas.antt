pub mod plugs
