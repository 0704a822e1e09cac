pub mod Filled
pub mod Holding
