pub mod Nul
