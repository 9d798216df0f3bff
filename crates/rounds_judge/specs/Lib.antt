pub mod Aliases
pub mod Equations
pub mod Obligations
pub mod Projections
pub mod Table
