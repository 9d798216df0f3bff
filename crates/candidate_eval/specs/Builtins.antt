pub mod Tables
pub mod Asked
pub mod Destruct
pub mod Callable
