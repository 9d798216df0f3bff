pub mod Evaluators
pub mod Snapshots
pub mod Table
pub mod Resolution
pub mod Stops
pub mod Equations
pub mod Obligations
pub mod Leaking
