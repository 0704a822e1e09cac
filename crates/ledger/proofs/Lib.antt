pub mod LedgerLaws
pub mod SearchLaws
pub mod AddLaws
pub mod TableLaws
pub mod PlaceLaws
pub mod ReportLaws
