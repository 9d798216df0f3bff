pub mod Apart
pub mod Holds
pub mod Looks
