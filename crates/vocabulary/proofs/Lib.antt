pub mod Listed
pub mod Plains
