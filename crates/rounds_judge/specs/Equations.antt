pub mod Active
pub mod Scopes
pub mod Binding
pub mod Equating
pub mod Opening
pub mod Standing
pub mod WithErrors
