pub mod Firing
pub mod Laws
