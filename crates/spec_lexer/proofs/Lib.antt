mod Examples
pub mod Choices
pub mod Runs
pub mod Digits
pub mod Words
pub mod Symbols
pub mod Places
pub mod Utf8
pub mod Sound
pub mod Steps
pub mod Complete
pub mod OneAnswer
pub mod SourceLaws
pub mod SomeAnswer
