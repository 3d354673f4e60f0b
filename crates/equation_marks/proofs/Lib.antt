pub mod OwnMarks
pub mod PartMarks
pub mod ChainMarks
pub mod ByShape
pub mod CallMarks
pub mod Refusing
pub mod AgreeMarks
pub mod MadeMarks
pub mod Counts
mod CallPartsLemmas
pub mod Weights
mod CountLemmas
mod InsideLemmas
mod PlainParts
