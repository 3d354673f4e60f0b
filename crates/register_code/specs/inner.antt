pub mod Plan
pub mod Pairs
pub mod Laws
