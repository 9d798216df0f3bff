pub mod Objects
pub mod Required
pub mod Replacing
pub mod ObjectRequirements
pub mod ObjectRules
pub mod Calls
