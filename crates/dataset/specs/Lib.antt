pub mod Dataset
