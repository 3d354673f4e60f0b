pub mod Ends
pub mod WrittenLemmas
