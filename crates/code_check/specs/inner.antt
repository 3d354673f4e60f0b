pub mod Planning
pub mod Typing
pub mod Unchanged
