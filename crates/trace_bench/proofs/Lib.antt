pub mod Compiling
pub mod Endings
pub mod Pieces
pub mod Sums
pub mod Tallied
