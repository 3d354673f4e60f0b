pub mod Calm
pub mod Desk
pub mod Files
pub mod Memory
pub mod Sizes
pub mod Sources
