pub mod Certainties
pub mod Responses
pub mod ResponseTrees
pub mod Merging
