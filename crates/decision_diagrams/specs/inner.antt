pub mod DecisionTree
pub mod Arena
pub mod Join
