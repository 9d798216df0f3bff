pub mod Elaboration
pub mod Supers
pub mod Supertraits
