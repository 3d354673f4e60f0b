pub mod Search
pub mod Pairs
pub mod Marking
pub mod Kept
pub mod Contents
pub mod Flows
