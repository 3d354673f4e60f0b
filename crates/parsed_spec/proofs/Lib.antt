pub mod Chains
pub mod SpelledParts
pub mod Texts
