pub mod Numbers
pub mod CycleSearch
pub mod RankSearch
