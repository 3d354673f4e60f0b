pub mod Words
pub mod Gates
pub mod Turns
pub mod Adding
pub mod Rows
