pub mod Arity
pub mod Fitting
pub mod Parameters
pub mod References
