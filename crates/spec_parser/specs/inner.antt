pub mod Reading
pub mod PartReaders
pub mod Gives
pub mod Marks
