pub mod AgreeLemmas
pub mod FirstLemmas
pub mod CountLemmas
mod LawLemmas
mod PartsLemmas
mod TableLemmas
mod TopLemmas
mod TwiceLemmas
pub mod UnknownLemmas
pub mod WalkLemmas
