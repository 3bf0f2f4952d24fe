pub mod Listed
pub mod Unsaid
pub mod Unread
pub mod Resources
pub mod Misread
