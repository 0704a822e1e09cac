pub mod Blocks
pub mod Shown
pub mod CountFields
