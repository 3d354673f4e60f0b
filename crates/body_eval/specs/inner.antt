pub mod Textless
pub mod Answered
pub mod Registers
pub mod Evaluable
