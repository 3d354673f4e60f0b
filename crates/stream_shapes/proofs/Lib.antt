pub mod OperandLemmas
pub mod MakeLemmas
pub mod DottedLemmas
pub mod ScopeLemmas
pub mod ShapeLemmas
pub mod NodeLemmas
pub mod PlainLemmas
