pub mod Growth
pub mod Hierarchy
pub mod Instantiation
pub mod Kinding
pub mod Syntax
pub mod Traversal
pub mod Unification
pub mod Validity
