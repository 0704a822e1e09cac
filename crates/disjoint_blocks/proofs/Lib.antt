pub mod Numbers
pub mod Sorted
pub mod Listed
pub mod Held
