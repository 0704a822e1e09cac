pub mod OrderLaws
pub mod RaiseLaws
pub mod MergeLaws
pub mod MergedCases
pub mod RunLaws
pub mod HalvingLaws
pub mod PartLaws
