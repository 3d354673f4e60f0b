pub mod Formula
pub mod Table
pub mod Question
pub mod inner
