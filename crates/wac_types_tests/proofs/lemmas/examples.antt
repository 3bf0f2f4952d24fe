pub mod Rows
pub mod MeaningRows
pub mod NameRows
