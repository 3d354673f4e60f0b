pub mod Stored
pub mod CellView
pub mod Keys
pub mod Entries
pub mod Slots
