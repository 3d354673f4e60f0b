pub mod Form
pub mod Reading
pub mod Closed
pub mod inner
