pub mod OverwriteLaws
pub mod LineLaws
