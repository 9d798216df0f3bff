pub mod Interface
pub mod Outcomes
pub mod Judges
pub mod Derivations
pub mod Builtins
pub mod Dynamic
pub mod Knowability
pub mod Calls
