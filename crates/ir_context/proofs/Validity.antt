pub mod Faults
pub mod Given
pub mod ListedImpls
pub mod WellFormed
