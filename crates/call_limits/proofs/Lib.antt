pub mod ChainLemmas
pub mod ScopeLemmas
mod CallLemmas
pub mod GraphLemmas
mod DepthLemmas
mod PlaceLemmas
pub mod LawLemmas
