pub mod Contents
pub mod Constraints
pub mod Answer
pub mod Beginning
pub mod Nears
