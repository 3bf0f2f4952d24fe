pub mod MergedClasses
pub mod WritingSteps
pub mod SharedUnions
pub mod OneInterface
pub mod OneId
pub mod MergedScope
pub mod EntryFaults
pub mod Lighter
