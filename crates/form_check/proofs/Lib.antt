mod AnyLemmas
mod ArityLemmas
mod CountLemmas
mod OutputLemmas
pub mod OwnLemmas
