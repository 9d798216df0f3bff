pub mod Instantiation
