pub mod Kinds
pub mod PlainTable
pub mod Table
