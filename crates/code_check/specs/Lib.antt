pub mod Checked
pub mod Read
pub mod Laws
pub mod inner
