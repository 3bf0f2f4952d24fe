pub mod PlaceLemmas
pub mod OuterLemmas
pub mod OuterNameLemmas
pub mod MergeLemmas
pub mod FoundLemmas
pub mod BeginLemmas
