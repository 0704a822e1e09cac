pub mod Fields
pub mod Describe
