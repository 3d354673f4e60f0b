pub mod Code
pub mod OneLevel
pub mod Falls
pub mod Joins
