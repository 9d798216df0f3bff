pub mod Places
pub mod Gathering
pub mod Anew
pub mod Trying
pub mod Projecting
pub mod Evaluating
pub mod Noting
pub mod Again
