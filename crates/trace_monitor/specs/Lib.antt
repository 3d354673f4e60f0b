pub mod Due
pub mod Ending
pub mod Next
pub mod Counted
pub mod Saved
pub mod inner
