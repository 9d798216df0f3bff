pub mod Choosing
pub mod Implying
pub mod Numbering
pub mod Saying
