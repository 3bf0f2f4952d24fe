pub mod TypeKeys
pub mod Lists
pub mod Universe
pub mod Reaching
