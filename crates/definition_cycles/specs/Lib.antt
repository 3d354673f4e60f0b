pub mod Nodes
pub mod Mentions
pub mod Calls
pub mod Cycles
pub mod inner
