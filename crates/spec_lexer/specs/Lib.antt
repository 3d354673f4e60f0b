pub mod Spelling
pub mod Pieces
pub mod Source
pub mod Found
pub mod Tokens
pub mod inner
