pub mod Declared
pub mod Owned
