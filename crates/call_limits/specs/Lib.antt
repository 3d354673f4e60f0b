pub mod Nesting
pub mod inner
