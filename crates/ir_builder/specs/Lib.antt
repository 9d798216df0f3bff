pub mod Calls
pub mod Validity
