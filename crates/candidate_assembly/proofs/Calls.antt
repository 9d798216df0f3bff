pub mod Causes
pub mod Stepping
pub mod Considering
pub mod Keeping
pub mod Quieting
pub mod ToldSome
pub mod Using
