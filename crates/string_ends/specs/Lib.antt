pub mod Ends
pub mod Cells
