pub mod Apart
pub mod Pending
pub mod Tournament
