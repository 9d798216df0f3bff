pub mod Undoing
pub mod Knowing
pub mod Probing
pub mod Holding
pub mod ResolvedValues
