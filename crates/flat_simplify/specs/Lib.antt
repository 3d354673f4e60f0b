pub mod CanFault
pub mod Replaced
pub mod Simplified
pub mod inner
