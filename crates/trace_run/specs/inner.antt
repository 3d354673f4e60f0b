pub mod Round
pub mod Told
