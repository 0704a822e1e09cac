pub mod ChainLaws
pub mod SpanLaws
pub mod BlockLaws
pub mod FreeLaws
