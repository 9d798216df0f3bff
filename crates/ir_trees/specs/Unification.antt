pub mod ImplClasses
pub mod ImplLists
pub mod Impls
pub mod Substitutions
pub mod Unify
