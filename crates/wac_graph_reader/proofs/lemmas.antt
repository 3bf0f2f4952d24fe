pub mod writing
pub mod reading
