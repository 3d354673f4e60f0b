pub mod Circuit
pub mod inner
