pub mod Rooms
pub mod Stopping
pub mod BindingStops
pub mod EquatingStops
pub mod ResponseStops
pub mod SettlingStops
pub mod Accounting
