pub mod Marks
pub mod Later
pub mod Bound
