pub mod Growth
pub mod Hierarchy
pub mod Instantiation
pub mod Unification
pub mod Validity
