pub mod Tree
pub mod Levels
pub mod Counts
pub mod Places
pub mod inner
