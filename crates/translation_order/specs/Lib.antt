pub mod Graph
pub mod Least
pub mod Order
pub mod Cycle
pub mod OnCycle
pub mod inner
