pub mod Arguments
pub mod Bound
pub mod Joining
pub mod Opening
pub mod Substituting
