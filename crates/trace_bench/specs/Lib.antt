pub mod Bench
pub mod Measured
pub mod Outcome
pub mod Ran
pub mod Text
pub mod inner
