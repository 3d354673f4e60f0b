pub mod Order
pub mod Seen
pub mod Walk
pub mod Edges
