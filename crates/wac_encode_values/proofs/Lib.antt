pub mod Ready
pub mod Members
pub mod Made
pub mod Waiting
pub mod Params
pub mod Sized
pub mod Covered
