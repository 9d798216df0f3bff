pub mod Holding
pub mod ImplCounts
pub mod Made
mod Refusing
pub mod UnmadeCases
