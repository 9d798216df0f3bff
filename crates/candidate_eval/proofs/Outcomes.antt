pub mod Merging
pub mod Responding
pub mod Pairs
pub mod Equal
