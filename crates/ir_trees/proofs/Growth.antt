pub mod Distinct
pub mod Growing
pub mod Kept
pub mod Made
pub mod Making
pub mod Putting
pub mod Sorts
pub mod Tables
