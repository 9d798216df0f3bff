pub mod Clean
pub mod Ordinary
pub mod Derivations
pub mod DerivedTables
pub mod Levels
