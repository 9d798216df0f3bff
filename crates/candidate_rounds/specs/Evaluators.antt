pub mod Inferences
pub mod Known
pub mod Interface
pub mod Stopping
pub mod Following
pub mod Leaking
