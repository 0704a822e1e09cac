pub mod AddLaws
pub mod CellLaws
pub mod CellWrites
pub mod RangeLaws
pub mod SearchLaws
