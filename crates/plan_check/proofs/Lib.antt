pub mod Placing
pub mod Ordering
pub mod Fineness
