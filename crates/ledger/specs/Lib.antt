pub mod Links
pub mod Index
pub mod Table
pub mod Report
pub mod Objects
