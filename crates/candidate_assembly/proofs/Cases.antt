pub mod CharacterizingCases
pub mod BuiltinCases
pub mod ShownLists
pub mod ChainCases
pub mod UnsizingCases
pub mod ObjectCases
pub mod AssembledCases
pub mod PreferenceCases
