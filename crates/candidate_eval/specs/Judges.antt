pub mod States
pub mod Alike
pub mod Soundness
pub mod Instances
pub mod Lawful
pub mod Modes
