pub mod JudgeLaws
pub mod NormalForms
pub mod OpenEquations
pub mod OpenSides
pub mod TableLaws
pub mod TableLawful
