pub mod SubtreeLaws
