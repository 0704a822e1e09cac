pub mod Datatype
