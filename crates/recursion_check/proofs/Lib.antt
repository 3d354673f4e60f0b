pub mod FeedLemmas
pub mod RunOrder
