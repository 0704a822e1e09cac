pub mod Block
pub mod Entered
