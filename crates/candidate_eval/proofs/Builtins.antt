pub mod Cells
pub mod Types
pub mod Conditions
pub mod Callables
pub mod PartsFree
