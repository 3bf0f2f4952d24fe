pub mod ListedLemmas
pub mod DefiningLemmas
mod CheckedLemmas
mod FittingLemmas
mod NothingLemmas
mod OpenLemmas
mod PositionLemmas
mod BoundLemmas
mod BuildingLemmas
mod DependencyLemmas
mod TwiceLemmas
mod BeginLemmas
mod WithinLemmas
pub mod ConflictFreeLemmas
pub mod WantedAskedLemmas
pub mod lemmas
