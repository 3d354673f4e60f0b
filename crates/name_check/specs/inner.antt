pub mod Tables
pub mod Levels
pub mod Shown
pub mod Steps
pub mod Answer
pub mod Laws
