pub mod Builtin
pub mod Scope
pub mod Parts
pub mod Bodies
pub mod Faults
pub mod inner
