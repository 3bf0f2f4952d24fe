pub mod UnionSteps
pub mod GroupViews
