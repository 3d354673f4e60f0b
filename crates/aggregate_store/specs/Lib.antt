pub mod Content
pub mod inner
