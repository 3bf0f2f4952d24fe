pub mod Inside
pub mod EncoderView
pub mod Seen
pub mod Slots
pub mod Appended
pub mod PackageNames
