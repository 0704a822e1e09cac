pub mod Overlaps
pub mod SortedRuns
pub mod MetLaws
pub mod IndexLaws
pub mod AddLaws
pub mod SearchLaws
pub mod FindLaws
