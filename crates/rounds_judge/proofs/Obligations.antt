pub mod Opening
pub mod Settling
pub mod Granting
pub mod Renumbering
pub mod Responding
