pub mod Kind
pub mod Faults
pub mod Text
pub mod inner
