pub mod Digits
pub mod WordRows
pub mod WordTurns
pub mod WordLemmas
pub mod Commands
pub mod Rooms
