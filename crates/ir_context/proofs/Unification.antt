pub mod FoundImpls
pub mod KeptLists
