pub mod Answers
pub mod Goals
pub mod Rules
pub mod Laws
pub mod Calls
