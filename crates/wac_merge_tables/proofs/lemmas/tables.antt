pub mod SortedMaps
pub mod NodeLaws
pub mod CalledKeys
pub mod NodeKeys
pub mod NodeAdding
pub mod TaskOpenings
pub mod TaskLemmas
pub mod PutNumbers
