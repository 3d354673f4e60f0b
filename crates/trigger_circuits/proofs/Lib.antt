pub mod Gates
pub mod Circuits
