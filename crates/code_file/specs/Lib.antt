pub mod Spelling
pub mod Form
pub mod Laws
pub mod inner
