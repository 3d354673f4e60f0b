pub mod Feeds
pub mod inner
