pub mod SeenLemmas
pub mod NamesLemmas
pub mod ComponentLemmas
pub mod PackageLemmas
