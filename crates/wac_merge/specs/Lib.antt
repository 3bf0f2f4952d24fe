pub mod Aggregate
pub mod Listed
pub mod MergedPlaces
pub mod ImportFaults
pub mod OrderLaws
pub mod UsedValues
pub mod UsedResources
