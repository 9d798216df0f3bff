pub mod Holds
pub mod Plain
pub mod Loose
pub mod Declared
pub mod Marking
pub mod Closed
