pub mod Lines
pub mod Course
pub mod State
pub mod Kept
pub mod Laws
