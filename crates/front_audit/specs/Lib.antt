pub mod Room
pub mod With
