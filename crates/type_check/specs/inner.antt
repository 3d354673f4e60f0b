pub mod Answer
pub mod Laws
pub mod FirstFault
pub mod Slots
