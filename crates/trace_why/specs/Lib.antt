pub mod Text
pub mod Ending
pub mod Answer
pub mod Meant
pub mod inner
