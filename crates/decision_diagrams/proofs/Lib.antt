pub mod DecisionTrees
pub mod Nodes
pub mod Once
pub mod Joining
pub mod Finding
