pub mod Adding
pub mod Answered
pub mod Checked
pub mod Compared
pub mod Finding
pub mod Giving
pub mod ListedPairs
pub mod MayBeGiven
pub mod Ordering
pub mod Pairing
pub mod Projections
pub mod Values
pub mod Variables
pub mod Negating
mod Making
