pub mod DataspaceLaws
pub mod SpaceChecks
