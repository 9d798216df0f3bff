pub mod Asking
pub mod Noted
pub mod Rebuild
