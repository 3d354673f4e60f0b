pub mod Rules
pub mod AtomLists
pub mod Truth
pub mod Kept
