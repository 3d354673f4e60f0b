pub mod Making
pub mod Here
pub mod Answers
pub mod Sides
pub mod Own
pub mod Items
pub mod Laws
