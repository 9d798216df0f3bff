pub mod Listing
pub mod AssembledSteps
pub mod Unknowing
pub mod AssembledBack
pub mod AssembledLists
pub mod KnownLists
pub mod Trivials
pub mod OneTrivial
