pub mod Formed
pub mod Checked
pub mod Functions
pub mod FunctionLaws
pub mod Matches
pub mod FlatLaws
pub mod Chains
pub mod Inner
