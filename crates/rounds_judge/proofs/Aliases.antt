pub mod Congruent
pub mod Equated
pub mod OpenedParts
pub mod Faithful
pub mod WellListed
