pub mod CycleLemmas
pub mod ListLemmas
pub mod FoundLemmas
pub mod MentionLemmas
mod NumberLemmas
pub mod CountLemmas
mod EdgeLemmas
pub mod RangeLemmas
pub mod CallLemmas
pub mod OrderLemmas
pub mod Acyclic
