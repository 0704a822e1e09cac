pub mod ByteLaws
pub mod NumberLaws
pub mod CellLaws
pub mod ScanLaws
pub mod MarkLaws
