pub mod Marks
pub mod Knowledge
pub mod Search
