pub mod Laws
pub mod Short
pub mod TextLaws
