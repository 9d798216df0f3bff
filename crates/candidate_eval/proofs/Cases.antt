pub mod Examples
pub mod Premises
pub mod RuleToy
pub mod RuleCases
