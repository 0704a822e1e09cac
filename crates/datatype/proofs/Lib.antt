pub mod DatatypeLaws
pub mod TypeChecks
