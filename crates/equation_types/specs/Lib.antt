pub mod Kinds
pub mod Breaking
pub mod inner
