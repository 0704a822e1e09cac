pub mod OrderLaws
pub mod Comparing
pub mod Parts
pub mod Sixteen
pub mod BigEndianLaws
pub mod Windows
pub mod FirstLaws
