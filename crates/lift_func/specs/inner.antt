pub mod OneLevel
pub mod Placed
