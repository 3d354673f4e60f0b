pub mod Words
pub mod Grammar
pub mod Refusals
pub mod Answers
pub mod inner
