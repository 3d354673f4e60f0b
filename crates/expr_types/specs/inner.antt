pub mod Alike
pub mod Answers
pub mod Shown
pub mod Steps
pub mod BodySteps
pub mod Blocks
