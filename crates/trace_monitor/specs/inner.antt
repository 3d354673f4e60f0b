pub mod State
pub mod Waits
pub mod Kept
pub mod Snapshot
pub mod Run
pub mod Reading
