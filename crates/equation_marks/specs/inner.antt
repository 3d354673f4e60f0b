pub mod Own
pub mod Counted
pub mod Counters
pub mod Calls
pub mod CallsShown
