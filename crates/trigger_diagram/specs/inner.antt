pub mod Truth
pub mod Made
pub mod Kept
pub mod Ways
