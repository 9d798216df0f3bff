pub mod Listed
pub mod OpenParts
pub mod Normalizing
pub mod Congruence
pub mod WellListed
