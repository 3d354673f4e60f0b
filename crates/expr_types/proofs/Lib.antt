pub mod AlikeLemmas
mod ArgumentLemmas
pub mod BlockLemmas
mod BodyLemmas
mod CallLemmas
mod ChainLemmas
mod Examples
mod KindLemmas
pub mod SameLemmas
mod StopLemmas
mod WrongLemmas
