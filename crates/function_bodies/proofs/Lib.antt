pub mod TreeLemmas
pub mod ScopeLemmas
pub mod DepthLemmas
pub mod LawLemmas
pub mod CallLemmas
pub mod WalkLemmas
pub mod MadeLemmas
pub mod EndLemmas
pub mod SizeLemmas
pub mod OrderLemmas
mod OptionLemmas
