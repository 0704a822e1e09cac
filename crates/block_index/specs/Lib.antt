pub mod Index
pub mod Search
