pub mod Reasoning
pub mod Fewer
pub mod Blocking
pub mod Choosing
pub mod Trying
pub mod Ordering
pub mod Rising
