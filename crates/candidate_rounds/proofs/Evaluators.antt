pub mod Between
pub mod HiddenOpaques
pub mod Going
pub mod Exits
pub mod Interface
pub mod Given
pub mod Following
pub mod Faulting
