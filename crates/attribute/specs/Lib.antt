pub mod Attribute
