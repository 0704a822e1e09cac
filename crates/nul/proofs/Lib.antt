pub mod NulLaws
pub mod Search
