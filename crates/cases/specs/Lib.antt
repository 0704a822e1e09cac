pub mod Files
pub mod Table
pub mod Damaged
pub mod Reported
