pub mod Compiled
pub mod Meant
pub mod inner
