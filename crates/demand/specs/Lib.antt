pub mod Bytes
pub mod Counts
pub mod Fields
pub mod State
pub mod Undos
pub mod Demand3
