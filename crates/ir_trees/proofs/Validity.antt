pub mod Headers
pub mod Holding
pub mod Misplacing
