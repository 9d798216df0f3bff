pub mod Evaluators
pub mod Calls
pub mod Table
pub mod Laws
