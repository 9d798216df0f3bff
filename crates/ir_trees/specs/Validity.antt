pub mod Faults
pub mod Held
pub mod ListedImpls
pub mod Misplaced
pub mod WellFormed
