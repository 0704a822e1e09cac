pub mod FreeBlocks
pub mod Spanned
