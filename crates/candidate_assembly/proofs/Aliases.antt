pub mod Chains
pub mod BoundRules
pub mod AliasChains
pub mod AliasWalks
