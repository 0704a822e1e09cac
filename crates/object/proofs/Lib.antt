pub mod ObjectLaws
