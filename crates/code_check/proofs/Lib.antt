pub mod Unchanged
pub mod Whole
pub mod Refused
pub mod ReadFaults
pub mod OneAnswer
pub mod Taken
