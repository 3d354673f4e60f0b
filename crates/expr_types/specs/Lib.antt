pub mod Around
pub mod Judge
pub mod Bodies
pub mod inner
