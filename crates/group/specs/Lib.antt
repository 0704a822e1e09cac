pub mod Group
pub mod Entries
