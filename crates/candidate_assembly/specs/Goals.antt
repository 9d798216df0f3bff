pub mod Kinds
pub mod TraitGoals
pub mod TraitRules
pub mod Projections
pub mod KindBounds
pub mod Standing
pub mod KindLaws
pub mod KindShown
