pub mod GroupLaws
pub mod Visits
pub mod Entries
