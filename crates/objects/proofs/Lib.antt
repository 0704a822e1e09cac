pub mod ObjectsLaws
