pub mod Listed
pub mod Making
