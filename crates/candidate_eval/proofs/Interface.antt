pub mod Accounts
pub mod Stops
pub mod Knowing
pub mod Probing
pub mod Resolving
pub mod StopKinds
pub mod Unmade
