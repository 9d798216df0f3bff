pub mod Cycles
pub mod Plain
