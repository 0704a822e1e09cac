pub mod Reply
pub mod Lent
pub mod Ended
pub mod Follow
pub mod AuditRoom
pub mod Call
pub mod Part
pub mod Working
