pub mod RuleRuns
pub mod Naming
pub mod NamedTerms
