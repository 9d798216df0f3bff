pub mod Calls
pub mod Declarations
pub mod Hierarchy
pub mod Instantiation
pub mod Laws
pub mod Syntax
pub mod Unification
pub mod Validity
