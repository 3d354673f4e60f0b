pub mod Source
pub mod Trace
pub mod inner
