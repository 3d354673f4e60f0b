pub mod Stands
pub mod CannotFault
pub mod Fit
pub mod Renumbered
pub mod Streams
pub mod Faults
pub mod Text
pub mod One
pub mod Exists
pub mod Making
pub mod Named
pub mod Ends
pub mod Kept
mod Examples
