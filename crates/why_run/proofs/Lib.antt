pub mod Starting
pub mod Asking
