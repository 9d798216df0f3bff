pub mod SelfTypes
pub mod TraitClauses
pub mod Clauses
pub mod Standing
pub mod ResolvedTypes
