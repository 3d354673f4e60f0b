pub mod Types
pub mod Declared
pub mod Arity
pub mod Outputs
pub mod inner
