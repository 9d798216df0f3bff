pub mod Elaboration
pub mod ElaborationLaws
pub mod Listing
pub mod Ranks
pub mod Supertraits
pub mod Walking
