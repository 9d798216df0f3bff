pub mod Hierarchy
pub mod Validity
