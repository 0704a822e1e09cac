pub mod Lending
pub mod Continuations
