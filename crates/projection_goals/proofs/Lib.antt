pub mod Clauses
pub mod ImplSteps
pub mod Changing
pub mod Rigid
pub mod LanguageRules
pub mod Answered
pub mod MayBeAsked
