pub mod Joined
pub mod Spelled
pub mod Fields
pub mod Bodies
pub mod Entries
pub mod Whole
