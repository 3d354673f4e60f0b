pub mod Reasons
pub mod inner
