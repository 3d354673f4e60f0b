pub mod Text
pub mod Short
