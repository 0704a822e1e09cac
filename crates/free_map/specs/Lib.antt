pub mod Cells
pub mod FreeMap
