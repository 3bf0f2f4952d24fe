pub mod nodes
pub mod meaning
pub mod causes
pub mod weight
pub mod private
