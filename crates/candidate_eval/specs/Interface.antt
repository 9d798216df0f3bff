pub mod Accounts
pub mod Evaluators
pub mod Knowing
pub mod Shown
pub mod Unmade
pub mod Noting
