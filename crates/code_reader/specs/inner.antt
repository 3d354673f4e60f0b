pub mod Gives
pub mod Rising
pub mod Names
pub mod Joined
pub mod Whole
