pub mod BlockLaws
pub mod ContinuationLaws
