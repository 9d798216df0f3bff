pub mod Cycles
pub mod Supers
