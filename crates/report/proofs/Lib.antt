pub mod Replied
pub mod Ledgers
