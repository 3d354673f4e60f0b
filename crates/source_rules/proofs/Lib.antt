pub mod CountLemmas
pub mod SourceLemmas
pub mod TypedLemmas
pub mod CycleLemmas
pub mod LawLemmas
