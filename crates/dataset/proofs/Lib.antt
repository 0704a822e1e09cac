pub mod DatasetLaws
