pub mod Parts
pub mod Fault
pub mod inner
