pub mod LogLaws
pub mod WrittenLaws
