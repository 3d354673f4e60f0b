pub mod Same
pub mod Textless
pub mod CellReads
pub mod Evaluation
pub mod AtHand
pub mod Quotient
