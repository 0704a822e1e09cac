pub mod Subtree
