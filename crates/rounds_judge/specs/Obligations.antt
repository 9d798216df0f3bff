pub mod Settling
pub mod Responding
pub mod Granted
