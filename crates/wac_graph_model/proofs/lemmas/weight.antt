pub mod AskedOnce
pub mod AskedPaid
pub mod Fitting
pub mod Spreading
pub mod WrittenPaid
