pub mod Dataspace
