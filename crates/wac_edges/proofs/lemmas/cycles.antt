pub mod Numbers
pub mod StepLemmas
pub mod CycleSearch
