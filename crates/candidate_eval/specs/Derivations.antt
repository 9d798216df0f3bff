pub mod Characterization
pub mod Rules
pub mod Judging
pub mod ImplRules
pub mod Mentions
pub mod Naming
