pub mod Header
pub mod Segment
