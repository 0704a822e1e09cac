pub mod Leads
pub mod Found
pub mod PathFault
pub mod Beside
pub mod Covered
pub mod PathShown
pub mod Accepted
pub mod DescribeOwned
