pub mod SuperblockLaws
