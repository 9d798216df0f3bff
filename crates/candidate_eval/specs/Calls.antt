pub mod Table
pub mod Shapes
pub mod Walk
pub mod Visits
pub mod Exits
pub mod Second
