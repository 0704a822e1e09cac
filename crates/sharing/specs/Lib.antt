pub mod Sharing
pub mod Lent
pub mod Visit
pub mod VisitLaws
