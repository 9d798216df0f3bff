pub mod EquatingCases
pub mod EquationPremises
pub mod SettlingCases
pub mod TableCases
