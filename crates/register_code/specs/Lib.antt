pub mod Code
pub mod Text
pub mod inner
