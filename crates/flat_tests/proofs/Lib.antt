pub mod SmallLemmas
