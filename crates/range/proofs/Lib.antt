pub mod RangeLaws
pub mod FirstBytes
