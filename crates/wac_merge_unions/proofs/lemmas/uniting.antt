pub mod UnionLists
pub mod UnionGroups
pub mod SameNames
pub mod GroupViews
pub mod UnionPlaces
pub mod KnownUnions
pub mod UnionWeights
pub mod UnionJoins
