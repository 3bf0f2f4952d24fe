pub mod Valid
pub mod FirstFault
