pub mod Normalizer
pub mod Answers
pub mod Orphan
pub mod Laws
pub mod Calls
