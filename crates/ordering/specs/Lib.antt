pub mod Order
pub mod Merge
