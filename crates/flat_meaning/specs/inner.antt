pub mod Laws
pub mod OneFlat
pub mod Complete
