mod CheckLemmas
mod SlotLemmas
mod NodeLemmas
mod StepLemmas
mod KindLemmas
pub mod LawLemmas
pub mod AcceptedParts
