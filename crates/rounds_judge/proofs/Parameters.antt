pub mod Parameterless
pub mod ParameterlessGoals
pub mod ParameterlessResponses
pub mod TableParameterless
