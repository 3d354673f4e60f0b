pub mod SameTypes
pub mod BodyKinds
pub mod Operations
pub mod TypedArguments
pub mod Equations
