pub mod ItemView
pub mod OpenSection
