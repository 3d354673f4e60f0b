pub mod Readiness
pub mod FirstInstants
pub mod FlatMeaning
pub mod Meaning
pub mod Kept
pub mod Something
pub mod Inputs
pub mod Excluding
