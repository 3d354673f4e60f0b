pub mod Truths
pub mod Making
pub mod Questions
pub mod Keeping
pub mod Depth
