pub mod ImplClasses
pub mod ImplLists
pub mod Impls
pub mod Instances
pub mod JoinedLists
pub mod MayUnify
pub mod Pairs
pub mod UnifyCases
