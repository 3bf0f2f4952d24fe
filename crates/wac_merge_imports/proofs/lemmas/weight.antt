pub mod CountedSums
pub mod Images
pub mod StillWeights
pub mod UnionWeights
pub mod ClassWeights
pub mod UsingWeights
pub mod MergedWeights
