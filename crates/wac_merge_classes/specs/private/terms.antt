pub mod MergedKinds
pub mod ValueBindings
