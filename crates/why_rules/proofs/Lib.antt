pub mod AtOnce
pub mod Members
pub mod Instants
pub mod Waiting
pub mod Forced
