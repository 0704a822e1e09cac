pub mod ComponentLaws
