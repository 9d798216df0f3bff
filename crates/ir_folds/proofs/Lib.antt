pub mod Hierarchy
pub mod Instantiation
pub mod Traversal
