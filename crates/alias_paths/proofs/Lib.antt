pub mod Spreads
pub mod Chaining
pub mod Adding
pub mod Using
pub mod Rooting
pub mod Sharers
