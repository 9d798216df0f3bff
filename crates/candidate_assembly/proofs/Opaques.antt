pub mod OpaqueRules
pub mod TypesFor
pub mod SaidBounds
pub mod SaidFree
pub mod OpaqueLists
pub mod OpaqueAnswers
