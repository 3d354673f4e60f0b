pub mod Asked
pub mod Kinds
pub mod Rules
pub mod Written
pub mod inner
