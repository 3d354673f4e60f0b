mod Examples
pub mod FiniteMaps
pub mod Numbers
pub mod NumberEntries
pub mod Contents
pub mod Gathered
pub mod Recent
pub mod Listed
pub mod Queues
pub mod Live
pub mod Cells
pub mod Typed
pub mod SameCells
