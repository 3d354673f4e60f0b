pub mod Said
pub mod Check
pub mod Text
pub mod Explained
pub mod inner
